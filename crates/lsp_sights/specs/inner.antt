pub mod Zipped
pub mod Hinted
