pub mod Sums
pub mod Pins
pub mod Counted
pub mod Sourced
