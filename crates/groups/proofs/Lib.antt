pub mod Columns
pub mod Parts
pub mod Groups
pub mod OneStep
