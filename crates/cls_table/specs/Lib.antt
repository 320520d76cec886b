pub mod Tables
pub mod Kept
pub mod Known
pub mod Counted
