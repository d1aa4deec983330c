pub mod Names
pub mod Owed
