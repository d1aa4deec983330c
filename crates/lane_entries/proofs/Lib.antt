pub mod Compared
pub mod Halves
pub mod Entries
pub mod Loop
pub mod Fault
