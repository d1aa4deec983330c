pub mod OneResult
pub mod Found
