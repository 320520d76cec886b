pub mod Wants
pub mod Trades
pub mod Settling
pub mod Frames
pub mod Changes
pub mod Coming
pub mod Same
