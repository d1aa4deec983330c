pub mod Answer
pub mod Order
pub mod Names
pub mod Says
