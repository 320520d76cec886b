pub mod Separated
pub mod Judges
pub mod Contents
pub mod Signed
pub mod Found
pub mod Proper
pub mod Composed
pub mod Meant
pub mod Unique
mod Unplaced
