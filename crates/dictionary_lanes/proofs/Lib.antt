pub mod Lanes
pub mod Words
pub mod Says
pub mod Same
