pub mod Walk
pub mod Pairs
