pub mod Cause
pub mod Exactly
