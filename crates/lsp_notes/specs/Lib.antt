pub mod Homes
pub mod Told
pub mod Once
pub mod inner
