pub mod Columns
pub mod Entries
pub mod Sizes
