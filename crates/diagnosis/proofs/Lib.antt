pub mod True
pub mod WorkedCauses
pub mod WrongCauses
