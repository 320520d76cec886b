pub mod Mappings
