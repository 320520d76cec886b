pub mod Files
pub mod Compiled
pub mod View
pub mod inner
