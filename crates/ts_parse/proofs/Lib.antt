pub mod Scans
pub mod Steps
pub mod Lists
pub mod Members
pub mod Contents
pub mod Files
pub mod Whole
