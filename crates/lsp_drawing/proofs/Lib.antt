pub mod Separated
pub mod Firsts
pub mod Showing
