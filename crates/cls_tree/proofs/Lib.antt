pub mod Table
pub mod Views
pub mod Plain
pub mod Files
