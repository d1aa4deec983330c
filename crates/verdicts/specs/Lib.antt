pub mod Meaning
pub mod Told
