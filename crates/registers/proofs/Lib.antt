pub mod Exactly
pub mod Lists
