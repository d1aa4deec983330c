pub mod Rows
pub mod Part
pub mod Tables
pub mod Entries
pub mod OneStep
