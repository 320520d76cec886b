pub mod Tables
pub mod Expressions
pub mod Statements
pub mod Members
pub mod Targets
pub mod Laws
pub mod ShapedLaws
