pub mod Node
pub mod Order
pub mod Trail
pub mod Verdicts
pub mod Memory
pub mod Ways
pub mod Budget
pub mod Walk
