pub mod Trace
pub mod Computed
pub mod inner
