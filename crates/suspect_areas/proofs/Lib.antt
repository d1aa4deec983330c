pub mod Bytes
pub mod Read
pub mod Held
pub mod OneByte
pub mod Says
pub mod Promise
pub mod Sessions
pub mod Reached
