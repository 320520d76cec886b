pub mod Escapes
pub mod WorkedRows
