pub mod Phases
pub mod Steps
pub mod Standing
pub mod Runs
pub mod examples
