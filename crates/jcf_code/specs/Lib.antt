pub mod Bytes
pub mod Layout
pub mod Marks
pub mod Instructions
