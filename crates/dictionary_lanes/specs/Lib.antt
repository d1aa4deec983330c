pub mod Promise
pub mod Words
