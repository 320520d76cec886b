pub mod Outline
pub mod Roles
