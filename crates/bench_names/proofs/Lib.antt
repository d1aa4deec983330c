pub mod Room
pub mod Answer
pub mod Says
