pub mod Hiding
pub mod WorkedHiding
mod WrongHiding
