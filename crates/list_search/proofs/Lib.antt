pub mod Pieces
pub mod Parts
pub mod Ends
pub mod Works
