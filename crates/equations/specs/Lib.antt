pub mod Meaning
pub mod Right
pub mod Numbers
pub mod Placing
pub mod Computes
