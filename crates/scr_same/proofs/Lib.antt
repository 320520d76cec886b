pub mod Sameness
pub mod Decided
