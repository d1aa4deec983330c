pub mod Says
pub mod Rows
