pub mod States
pub mod Rules
pub mod Owed
