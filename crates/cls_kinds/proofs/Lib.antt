pub mod Stacking
pub mod Naming
pub mod Joining
