pub mod Keys
pub mod Made
