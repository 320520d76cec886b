pub mod Objects
pub mod Parts
pub mod Answers
pub mod Said
pub mod examples
