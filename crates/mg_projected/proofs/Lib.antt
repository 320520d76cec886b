pub mod Once
pub mod Rest
pub mod Staged
pub mod Followed
pub mod Telling
pub mod Alike
pub mod Stops
pub mod Located
