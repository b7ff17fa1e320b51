pub mod Coded
pub mod Delivered
pub mod Selection
