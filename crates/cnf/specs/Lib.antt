pub mod Lists
pub mod Cnf
pub mod Table
pub mod Owed
