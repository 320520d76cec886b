pub mod Laws
pub mod Collecting
pub mod Trees
pub mod Made
pub mod Whole
