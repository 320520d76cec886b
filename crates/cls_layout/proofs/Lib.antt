pub mod Drops
pub mod Held
pub mod Modified
pub mod Plain
pub mod Laid
mod Stacks
mod Judged
