pub mod Diagnosis
