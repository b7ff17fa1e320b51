pub mod Before
pub mod LookBack
pub mod Remembered
pub mod Short
pub mod Valid
