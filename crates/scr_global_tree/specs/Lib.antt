pub mod Tree
pub mod View
pub mod Written
pub mod Valid
pub mod Global
pub mod Faults
