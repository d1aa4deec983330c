pub mod Clauses
pub mod Owed
