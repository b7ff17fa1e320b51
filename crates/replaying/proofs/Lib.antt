pub mod Accepting
pub mod Brought
pub mod Counted
pub mod Feeds
pub mod Plays
pub mod Putting
pub mod Starts
