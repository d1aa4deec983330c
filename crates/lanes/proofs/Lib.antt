pub mod Bits
pub mod Values
pub mod Shape
