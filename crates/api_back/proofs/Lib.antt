pub mod Names
pub mod Doings
pub mod Methods
pub mod Files
