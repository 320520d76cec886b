pub mod Kinds
pub mod Tree
