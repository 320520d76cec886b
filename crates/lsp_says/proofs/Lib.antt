pub mod Plain
pub mod WorkedRows
