pub mod Known
pub mod Look
pub mod Verdicts
