pub mod State
pub mod Doing
pub mod inner
