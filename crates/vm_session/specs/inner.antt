pub mod Tops
pub mod Sessions
