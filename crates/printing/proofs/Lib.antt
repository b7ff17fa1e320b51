pub mod Adding
pub mod Every
pub mod Lines
pub mod Windows
