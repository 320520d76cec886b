pub mod Found
pub mod Images
pub mod Calls
pub mod Telling
pub mod Prints
pub mod Tracks
pub mod Tabling
pub mod Worked
