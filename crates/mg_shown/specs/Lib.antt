pub mod Shown
pub mod examples
pub mod Computed
pub mod inner
