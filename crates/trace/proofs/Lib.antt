pub mod Exactly
pub mod Known
