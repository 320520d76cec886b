pub mod Backwards
pub mod Closing
pub mod Found
pub mod Meeting
pub mod Naming
pub mod Placed
pub mod Trying
