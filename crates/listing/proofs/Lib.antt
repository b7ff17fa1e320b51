pub mod Adding
pub mod Answers
