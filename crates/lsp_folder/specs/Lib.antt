pub mod Names
pub mod Noted
pub mod Programs
pub mod examples
pub mod inner
