pub mod Lengths
pub mod Filling
pub mod Defining
pub mod Sizes
