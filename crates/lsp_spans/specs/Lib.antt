pub mod Words
pub mod Spans
pub mod inner
pub mod examples
