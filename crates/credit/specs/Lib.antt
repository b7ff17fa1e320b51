pub mod Coded
pub mod Credit
pub mod Exactly
