pub mod Walking
pub mod Seeing
pub mod Lines
