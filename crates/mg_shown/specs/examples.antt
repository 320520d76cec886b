pub mod Adder
pub mod Turns
