pub mod Given
pub mod Left
pub mod Masked
