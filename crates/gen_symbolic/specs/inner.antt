pub mod Drafting
pub mod Held
