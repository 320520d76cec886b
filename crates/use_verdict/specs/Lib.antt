pub mod Verdict
pub mod Faults
pub mod Met
