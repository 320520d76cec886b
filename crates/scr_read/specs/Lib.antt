pub mod Unsupported
pub mod Spelling
pub mod Outcome
pub mod Parts
pub mod Layout
pub mod inner
