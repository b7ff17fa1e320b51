pub mod Billing
pub mod Verdict
