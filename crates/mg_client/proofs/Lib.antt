pub mod Apart
pub mod Alike
pub mod Each
pub mod Whole
pub mod Found
