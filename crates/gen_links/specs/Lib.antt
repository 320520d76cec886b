pub mod Right
pub mod Known
pub mod Files
pub mod Encodable
pub mod Held
pub mod FittingCode
pub mod Spelled
