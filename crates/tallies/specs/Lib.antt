pub mod Tally
pub mod Owed
