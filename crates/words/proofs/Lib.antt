pub mod Ranges
pub mod Same
pub mod Keywords
pub mod Halves
pub mod Loop
pub mod Table
