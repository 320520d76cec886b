pub mod Searches
pub mod Leading
pub mod Visiting
pub mod Marking
pub mod Turns
