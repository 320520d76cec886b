pub mod Fakes
pub mod Outside
