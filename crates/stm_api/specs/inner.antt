pub mod Does
pub mod View
