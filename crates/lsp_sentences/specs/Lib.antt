pub mod Table
pub mod Repairs
pub mod Sentences
pub mod examples
