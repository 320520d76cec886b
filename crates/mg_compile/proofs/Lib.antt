pub mod Filed
pub mod Ready
pub mod Writing
pub mod Given
pub mod Apart
pub mod Alike
