pub mod Lines
pub mod Steps
pub mod Unfolds
pub mod Values
pub mod Truths
pub mod Faults
pub mod Fillings
pub mod EveryStep
