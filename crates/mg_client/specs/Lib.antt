pub mod Clients
pub mod inner
