pub mod Counted
pub mod Owed
