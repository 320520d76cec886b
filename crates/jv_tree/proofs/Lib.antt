pub mod ViewLaws
pub mod BuiltInLaws
