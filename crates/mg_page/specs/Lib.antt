pub mod Answer
pub mod Laws
pub mod Pieces
pub mod Told
