pub mod Confirmation
pub mod Demand3
pub mod Run
pub mod Window
