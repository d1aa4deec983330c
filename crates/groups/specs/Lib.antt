pub mod Work
pub mod Owed
