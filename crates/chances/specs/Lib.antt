pub mod Exponents
pub mod Owed
