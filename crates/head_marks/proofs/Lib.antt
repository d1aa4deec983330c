pub mod Pins
pub mod Lines
