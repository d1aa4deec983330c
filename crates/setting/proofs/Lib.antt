pub mod Needs
pub mod Lines
pub mod Heads
pub mod Inputs
