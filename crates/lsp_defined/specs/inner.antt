pub mod View
pub mod Located
pub mod Filed
