pub mod Fronting
pub mod Emitting
