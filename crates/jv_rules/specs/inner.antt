pub mod Leaving
pub mod Deciding
