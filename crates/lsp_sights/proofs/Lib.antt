pub mod Locating
pub mod Members
pub mod Said
pub mod Shown
pub mod Answering
