pub mod Slashes
pub mod Sets
pub mod Parts
pub mod Gathering
