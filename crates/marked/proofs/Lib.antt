pub mod Solve
pub mod Marked
