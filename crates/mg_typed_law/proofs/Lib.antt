pub mod Typable
