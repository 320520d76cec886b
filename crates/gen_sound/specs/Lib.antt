pub mod Following
pub mod Related
pub mod Arriving
pub mod Standing
pub mod Begun
pub mod Mains
pub mod Known
pub mod Laws
