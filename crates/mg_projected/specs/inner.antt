pub mod Stages
pub mod Saying
