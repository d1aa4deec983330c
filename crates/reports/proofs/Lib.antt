pub mod Marks
pub mod Remains
