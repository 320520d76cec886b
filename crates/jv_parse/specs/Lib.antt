pub mod Unsupported
pub mod Answer
pub mod inner
