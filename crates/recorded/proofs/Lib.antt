pub mod Lines
pub mod Run
pub mod Spelled
pub mod Worked
pub mod WrongSizings
pub mod WrongWriters
