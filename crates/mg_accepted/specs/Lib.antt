pub mod Words
pub mod Program
pub mod Laws
pub mod Demands
pub mod Accepted
pub mod View
pub mod inner
