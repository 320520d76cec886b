pub mod Demands
pub mod Faults
pub mod View
pub mod inner
