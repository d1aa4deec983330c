pub mod Node
pub mod Order
pub mod Budget
pub mod Walk
pub mod Owed
