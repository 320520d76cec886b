pub mod Seen
pub mod Computed
pub mod inner
