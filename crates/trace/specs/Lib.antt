pub mod Exactly
pub mod Trace
