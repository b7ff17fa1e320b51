pub mod Back
pub mod Placed
