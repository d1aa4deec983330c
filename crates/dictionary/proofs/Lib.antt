pub mod Checked
pub mod Answer
pub mod Says
