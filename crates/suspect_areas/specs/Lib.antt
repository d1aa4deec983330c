pub mod Bytes
pub mod Promise
