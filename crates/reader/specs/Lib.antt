pub mod Numbered
pub mod Reading
pub mod Record
