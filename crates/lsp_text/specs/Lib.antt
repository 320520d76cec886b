pub mod Units
pub mod Lines
pub mod Positions
pub mod Places
pub mod Changes
pub mod Documents
pub mod examples
pub mod inner
