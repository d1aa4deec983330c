pub mod Lines
pub mod Sizes
