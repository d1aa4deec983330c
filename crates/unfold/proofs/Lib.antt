pub mod Line
pub mod Marking
pub mod Steps
pub mod Whole
pub mod Answer
pub mod Says
