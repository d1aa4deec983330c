pub mod Rules
pub mod Records
pub mod Small
pub mod Area
pub mod Answer
pub mod Lent
pub mod Owed
