pub mod Table
pub mod Words
pub mod Owed
