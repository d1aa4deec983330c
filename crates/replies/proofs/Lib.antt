pub mod Entered
pub mod Lent
pub mod Made
pub mod Reasons
