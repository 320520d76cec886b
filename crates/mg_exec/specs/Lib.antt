pub mod Files
pub mod Runs
pub mod View
pub mod inner
