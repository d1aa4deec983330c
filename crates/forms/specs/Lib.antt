pub mod Lines
pub mod Forms
pub mod Owed
