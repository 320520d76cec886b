pub mod Diagnosed
pub mod inner
