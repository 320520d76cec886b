pub mod Begins
pub mod Digits
pub mod Walks
pub mod Readings
pub mod More
pub mod FrameLaws
pub mod Written
