pub mod Look
pub mod Owed
