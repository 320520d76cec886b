pub mod Generating
pub mod Files
