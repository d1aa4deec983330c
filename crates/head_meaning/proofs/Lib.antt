pub mod Served
pub mod Meaning
pub mod Memory
