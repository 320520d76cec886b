pub mod Tokens
pub mod Named
pub mod Classes
pub mod Declares
pub mod Symbols
pub mod inner
pub mod examples
