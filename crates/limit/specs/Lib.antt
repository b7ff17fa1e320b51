pub mod Rules
pub mod Station
