pub mod Table
pub mod Spaces
