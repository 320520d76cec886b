pub mod Telling
pub mod Showing
pub mod Judging
pub mod Answering
pub mod Turns
pub mod Laws
pub mod inner
