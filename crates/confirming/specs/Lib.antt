pub mod Blocks
pub mod Coded
pub mod Exactly
pub mod Records
pub mod Refusals
