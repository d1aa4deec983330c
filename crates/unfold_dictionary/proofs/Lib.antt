pub mod Checked
pub mod Looked
pub mod Entries
pub mod Says
pub mod Last
pub mod Filled
