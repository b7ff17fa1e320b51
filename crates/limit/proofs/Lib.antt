pub mod Best
pub mod Station
pub mod Worked
