pub mod Results
pub mod Answer
pub mod Says
pub mod Each
pub mod InTurn
