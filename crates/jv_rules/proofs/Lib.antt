pub mod Tests
pub mod Leaving
pub mod Deciding
pub mod Judged
pub mod Positive
pub mod Once
pub mod BuiltInTypes
