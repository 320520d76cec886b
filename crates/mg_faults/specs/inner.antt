pub mod Keys
pub mod Readings
