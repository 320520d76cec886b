pub mod ViewLemmas
pub mod Behind
pub mod Appends
