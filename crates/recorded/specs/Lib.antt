pub mod Lines
pub mod Run
