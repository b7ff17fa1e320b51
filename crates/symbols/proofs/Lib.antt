pub mod Codes
pub mod Reading
pub mod Rows
pub mod States
