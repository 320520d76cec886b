pub mod Apart
pub mod Alike
mod Tried
