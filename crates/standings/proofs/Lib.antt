pub mod Past
pub mod Ends
pub mod Levels
pub mod Meeting
