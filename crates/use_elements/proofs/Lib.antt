pub mod Found
pub mod Rests
pub mod Leading
pub mod Unions
pub mod Rows
pub mod Kept
