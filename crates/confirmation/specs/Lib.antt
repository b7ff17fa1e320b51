pub mod Confirmed
pub mod Exactly
pub mod Sent
