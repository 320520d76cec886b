pub mod Sought
pub mod Once
pub mod Unique
pub mod Named
pub mod Staged
pub mod Moved
pub mod Laid
mod Unplaced
