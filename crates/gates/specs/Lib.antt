pub mod Gate
pub mod Words
pub mod Boolean
pub mod Owed
