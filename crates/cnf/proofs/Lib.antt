pub mod Signed
pub mod Sizes
pub mod Shapes
pub mod Lists
pub mod Decode
pub mod Gate
