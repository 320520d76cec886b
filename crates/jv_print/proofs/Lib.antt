pub mod Joins
pub mod Laid
pub mod Texts
