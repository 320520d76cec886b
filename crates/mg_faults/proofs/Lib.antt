pub mod Lines
pub mod Order
pub mod Saying
pub mod Reading
pub mod Among
pub mod Laws
pub mod Alike
pub mod Found
