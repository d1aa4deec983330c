pub mod Net
pub mod Owed
