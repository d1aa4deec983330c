pub mod Says
pub mod Promise
