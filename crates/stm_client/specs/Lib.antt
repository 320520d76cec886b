pub mod Counting
pub mod Client
pub mod View
pub mod inner
