pub mod Fields
pub mod Heard
pub mod Methods
pub mod Reading
pub mod examples
