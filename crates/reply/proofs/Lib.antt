pub mod Answered
pub mod Multiplexing
pub mod Ports
pub mod Silences
