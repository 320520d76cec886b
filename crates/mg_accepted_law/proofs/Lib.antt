pub mod Read
pub mod Held
pub mod Accepted
pub mod Kept
