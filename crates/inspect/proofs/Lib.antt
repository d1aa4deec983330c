pub mod Shown
pub mod Pairs
pub mod Spare
pub mod InOrder
