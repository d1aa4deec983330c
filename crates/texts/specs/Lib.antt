pub mod Text
pub mod Owed
