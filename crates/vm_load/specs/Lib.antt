pub mod Faults
pub mod Declaring
pub mod Firsts
pub mod Outlines
pub mod Width
pub mod Places
pub mod Known
