pub mod Billed
pub mod Judged
pub mod Same
pub mod WorkedBills
pub mod WrongBills
pub mod WrongVerdicts
