pub mod Cut
pub mod Running
