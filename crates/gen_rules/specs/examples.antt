pub mod Hello
pub mod Methods
