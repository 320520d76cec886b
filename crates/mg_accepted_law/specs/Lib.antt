pub mod Laws
pub mod KeptLaws
