pub mod Small
pub mod Made
pub mod Whole
