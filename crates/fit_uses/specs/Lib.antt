pub mod Uses
pub mod inner
