pub mod All
pub mod Lines
pub mod BadByte
pub mod Answer
pub mod Says
pub mod FirstLine
pub mod Accepted
pub mod Sizes
