pub mod Rules
pub mod Owed
