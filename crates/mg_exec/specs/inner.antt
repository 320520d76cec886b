pub mod Mains
pub mod Going
