pub mod Places
pub mod Columns
pub mod Lines
pub mod Parts
pub mod Models
pub mod Assignment
pub mod Faithful
pub mod Written
