pub mod Works
pub mod Owed
