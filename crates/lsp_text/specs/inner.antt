pub mod Fitting
pub mod Walk
pub mod Spots
