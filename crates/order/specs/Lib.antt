pub mod Order
pub mod Owed
