pub mod Projected
pub mod Laws
pub mod Told
pub mod inner
