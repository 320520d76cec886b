pub mod Unique
pub mod Staged
mod Unplaced
