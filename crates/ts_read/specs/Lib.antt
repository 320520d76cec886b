pub mod Layout
pub mod Conditions
pub mod Meaning
pub mod Outcome
pub mod inner
