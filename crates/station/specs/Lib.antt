pub mod Coded
pub mod Readings
