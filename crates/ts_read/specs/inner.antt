pub mod Finding
pub mod Signing
pub mod Deciding
pub mod Composing
pub mod Building
pub mod Printing
