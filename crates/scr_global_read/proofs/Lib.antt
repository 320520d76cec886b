pub mod Unique
pub mod Named
pub mod Staged
mod Unplaced
