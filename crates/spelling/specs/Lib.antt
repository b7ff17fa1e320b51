pub mod OneSpelling
pub mod Spelling
pub mod Used
pub mod Writable
pub mod Writing
