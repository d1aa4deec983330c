pub mod Choose
pub mod Below
pub mod Put
pub mod Lists
