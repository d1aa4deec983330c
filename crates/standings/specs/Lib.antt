pub mod Outcome
pub mod Owed
