pub mod Record
pub mod Layout
pub mod BadByte
pub mod Promise
pub mod Sizes
pub mod Formed
pub mod Owed
