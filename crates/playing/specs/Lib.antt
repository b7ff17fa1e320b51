pub mod Decided
pub mod Game
