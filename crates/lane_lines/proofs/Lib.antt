pub mod Words
pub mod Line
pub mod Turns
pub mod Inputs
pub mod Faults
pub mod Steps
