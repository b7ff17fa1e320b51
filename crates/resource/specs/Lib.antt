pub mod Bounds
pub mod Calls
pub mod Formula
pub mod OneToOne
pub mod Ports
pub mod Search
