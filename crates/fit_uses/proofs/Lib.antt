pub mod Using
pub mod Jumps
pub mod Beside
