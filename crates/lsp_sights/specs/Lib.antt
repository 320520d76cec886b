pub mod Located
pub mod Texts
pub mod Answers
pub mod Laws
pub mod examples
pub mod inner
