pub mod Unfolded
pub mod Inputs
pub mod Words
