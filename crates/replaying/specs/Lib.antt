pub mod Accepted
pub mod Counts
pub mod Ended
pub mod Ready
pub mod Replay
pub mod Written
