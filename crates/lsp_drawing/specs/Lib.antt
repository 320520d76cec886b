pub mod Diagrams
pub mod Drawings
pub mod examples
