pub mod Heard
pub mod Kinds
pub mod Memory
