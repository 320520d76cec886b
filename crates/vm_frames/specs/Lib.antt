pub mod Seen
pub mod View
pub mod Kept
pub mod Frames
pub mod Lying
