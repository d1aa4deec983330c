pub mod Records
pub mod Says
pub mod Steps
