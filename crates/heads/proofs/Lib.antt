pub mod Pins
pub mod Forest
pub mod Says
pub mod Fewer
pub mod Marks
