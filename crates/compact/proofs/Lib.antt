pub mod Says
pub mod Turns
pub mod Promise
