pub mod Sets
pub mod Firsts
pub mod Absences
pub mod Walks
pub mod Tables
pub mod Notes
pub mod Telling
pub mod Spelled
pub mod Others
pub mod Named
mod Adder
