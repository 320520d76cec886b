pub mod Moments
pub mod Kept
