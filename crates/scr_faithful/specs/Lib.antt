pub mod Guarded
pub mod Faithful
pub mod Heard
pub mod Leaving
pub mod Astray
pub mod Examples
