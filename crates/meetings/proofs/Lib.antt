pub mod Held
pub mod Coming
pub mod Alone
