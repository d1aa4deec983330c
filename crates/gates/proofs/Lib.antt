pub mod Values
pub mod Table
pub mod Computed
pub mod Laws
pub mod Words
pub mod Digits
