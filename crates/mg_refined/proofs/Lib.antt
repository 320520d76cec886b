pub mod Apart
pub mod Pairs
pub mod Lines
pub mod Verdicts
