pub mod KindTable
pub mod Shortened
pub mod Derivative
pub mod Table
pub mod Reader
pub mod Spelt
pub mod Says
pub mod Rows
