pub mod Size
pub mod Numbering
pub mod Marking
pub mod Stands
pub mod Written
pub mod Lines
pub mod Whole
