pub mod View
pub mod inner
pub mod Tables
pub mod Outcome
pub mod Whole
