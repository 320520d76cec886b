pub mod Views
pub mod Nested
pub mod Carried
pub mod Whole
pub mod Answered
