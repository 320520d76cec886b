pub mod Faults
pub mod Judging
pub mod Laying
pub mod Letters
pub mod Parts
pub mod Row
