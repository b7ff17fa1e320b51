pub mod Confirmed
pub mod Counted
pub mod Received
pub mod Same
pub mod Told
pub mod Worked
