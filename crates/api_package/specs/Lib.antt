pub mod Package
pub mod Heads
