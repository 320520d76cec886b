pub mod Report
pub mod inner
pub mod examples
pub mod Computed
