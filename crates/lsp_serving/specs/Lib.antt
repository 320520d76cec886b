pub mod Hearing
pub mod Speaking
pub mod Serving
pub mod Endings
pub mod Laws
pub mod inner
