pub mod Entries
pub mod Words
pub mod Sets
pub mod Turns
pub mod Sound
pub mod Same
pub mod Examples
