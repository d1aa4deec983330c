pub mod Need
pub mod Setting
