pub mod Spelling
pub mod Outcome
pub mod inner
