pub mod Size
pub mod Sizing
