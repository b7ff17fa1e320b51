pub mod Change
pub mod Checked
pub mod Feed
pub mod Make
pub mod Modes
pub mod Sound
pub mod Stored
