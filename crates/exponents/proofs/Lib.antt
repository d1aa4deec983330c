pub mod Lines
pub mod Exact
pub mod Fraction
pub mod Rules
pub mod Words
pub mod Free
