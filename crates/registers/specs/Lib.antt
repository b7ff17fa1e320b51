pub mod Call
pub mod Exactly
pub mod Flags
pub mod Lists
pub mod Machine
