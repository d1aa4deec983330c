pub mod Loops
pub mod Sizes
pub mod Whole
pub mod Answer
pub mod Says
