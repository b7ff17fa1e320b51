pub mod Answers
pub mod Back
pub mod Kinds
pub mod Windows
