pub mod Constants
pub mod Slots
pub mod Kept
pub mod Laid
pub mod Sizes
pub mod ToldLimits
pub mod Told
pub mod Parts
