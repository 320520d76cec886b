pub mod Doings
pub mod Api
pub mod View
pub mod inner
