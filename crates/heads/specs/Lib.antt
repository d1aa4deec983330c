pub mod Heads
pub mod Words
pub mod Marks
