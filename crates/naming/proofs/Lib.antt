pub mod Lines
pub mod Named
