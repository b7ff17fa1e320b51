pub mod Answered
pub mod Head
pub mod Only
pub mod Parts
pub mod Reached
pub mod Sizing
