pub mod Zipped
pub mod Paths
