pub mod Needs
pub mod Words
