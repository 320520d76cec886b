pub mod Judging
pub mod Closing
pub mod Telling
pub mod Sorting
pub mod Lexical
