pub mod Found
pub mod ViewLaws
pub mod PlainTypes
