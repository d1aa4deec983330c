pub mod Solved
pub mod Sizes
