pub mod Decided
pub mod Plays
pub mod RadioRules
pub mod SchedulerRules
pub mod Tree
mod Worked
mod WrongGames
