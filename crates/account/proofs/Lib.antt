pub mod Credits
pub mod Equation
pub mod Products
pub mod Totals
pub mod Worked
