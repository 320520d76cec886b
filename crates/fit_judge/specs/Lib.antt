pub mod Verdict
pub mod Adder
pub mod inner
