pub mod Promise
pub mod Words
pub mod Owed
