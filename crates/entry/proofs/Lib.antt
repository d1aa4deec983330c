pub mod Loop
pub mod Halves
pub mod Words
pub mod Masks
pub mod Decided
pub mod Fillings
