pub mod Resolves
pub mod Laws
pub mod KeptLaws
pub mod WholeLaws
