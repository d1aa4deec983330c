pub mod Lowest
pub mod Words
pub mod Firstly
pub mod Finds
pub mod Sound
pub mod Examples
