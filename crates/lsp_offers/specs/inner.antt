pub mod Seen
pub mod Named
pub mod Typed
