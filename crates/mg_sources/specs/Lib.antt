pub mod Files
pub mod Words
pub mod Reading
pub mod Sources
pub mod View
pub mod Parts
pub mod inner
