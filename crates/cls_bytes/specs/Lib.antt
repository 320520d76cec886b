pub mod Answer
pub mod File
pub mod Naming
pub mod Puts
pub mod Reading
pub mod Spelling
