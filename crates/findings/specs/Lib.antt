pub mod Findings
pub mod Words
