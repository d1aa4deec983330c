pub mod Clocked
pub mod Boolean
pub mod Inputs
