pub mod Promise
pub mod InTurn
pub mod Owed
