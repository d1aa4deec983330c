pub mod Reports
pub mod Words
pub mod Marks
pub mod Owed
