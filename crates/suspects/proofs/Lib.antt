pub mod State
pub mod Says
pub mod Promise
pub mod Left
pub mod Sessions
pub mod Reached
pub mod Lent
