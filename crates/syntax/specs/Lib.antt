pub mod Regular
pub mod Kinds
pub mod Grammar
pub mod Derivative
pub mod Syntax
pub mod Owed
