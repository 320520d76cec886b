pub mod Code
pub mod Answer
pub mod Inner
