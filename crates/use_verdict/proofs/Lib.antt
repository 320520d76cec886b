mod Failing
pub mod First
mod Meeting
