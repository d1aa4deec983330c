pub mod Pins
pub mod ByKind
