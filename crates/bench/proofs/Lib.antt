pub mod Answer
pub mod Says
pub mod Places
