pub mod Named
pub mod Row
pub mod inner
