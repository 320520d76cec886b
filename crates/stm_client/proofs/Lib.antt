pub mod Counting
pub mod Surveyed
pub mod Trees
pub mod Words
pub mod Turns
pub mod Playing
pub mod FreeLabels
