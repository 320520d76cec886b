pub mod Verified
pub mod Sound
pub mod View
