pub mod Fillings
pub mod Meaning
pub mod Look
pub mod Verdicts
