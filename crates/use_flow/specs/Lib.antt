pub mod View
pub mod Counting
pub mod Runs
pub mod Read
pub mod inner
