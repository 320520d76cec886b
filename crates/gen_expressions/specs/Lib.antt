pub mod Aimed
pub mod Drafting
pub mod Held
pub mod View
