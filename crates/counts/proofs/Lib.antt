pub mod Moves
pub mod Detected
pub mod Only
pub mod Sets
pub mod Decided
