pub mod Parts
pub mod Conditions
pub mod Fits
pub mod Promise
pub mod Laws
