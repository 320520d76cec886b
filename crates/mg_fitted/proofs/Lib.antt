pub mod Apart
pub mod Steps
pub mod Distinct
pub mod Single
pub mod Alike
