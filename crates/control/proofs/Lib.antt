pub mod Pins
pub mod Lines
pub mod Answer
pub mod Says
