pub mod Entries
pub mod Owed
