pub mod Promise
pub mod Owed
pub mod Words
