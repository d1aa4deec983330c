pub mod Half
pub mod Exact
