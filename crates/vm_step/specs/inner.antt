pub mod Acts
pub mod Judged
pub mod Objects
pub mod Calls
pub mod Builts
pub mod Awaiting
