pub mod Fitted
pub mod Laws
pub mod inner
