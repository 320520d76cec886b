pub mod View
pub mod Kinds
pub mod Reading
