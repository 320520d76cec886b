pub mod BuiltIns
pub mod Follows
pub mod Forms
pub mod Loops
pub mod Seen
mod Written
