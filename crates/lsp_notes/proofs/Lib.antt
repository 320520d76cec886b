pub mod Grouping
pub mod Pairing
pub mod Telling
pub mod Finding
