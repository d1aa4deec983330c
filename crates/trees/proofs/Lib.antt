pub mod Needs
pub mod OneNeed
pub mod Lines
pub mod Only
pub mod Tree
