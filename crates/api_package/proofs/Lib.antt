pub mod Packages
pub mod Heads
