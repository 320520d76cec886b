pub mod Walk
pub mod Merge
pub mod View
pub mod Stages
