pub mod Lines
pub mod Exact
pub mod Fraction
pub mod Words
