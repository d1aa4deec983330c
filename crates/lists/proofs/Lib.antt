pub mod Faults
pub mod Patterns
pub mod Parts
pub mod Both
