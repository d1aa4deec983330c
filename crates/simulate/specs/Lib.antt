pub mod Simulate
pub mod Boolean
pub mod Vectors
pub mod Work
pub mod Sites
pub mod Owed
pub mod Unused
