pub mod Kept
pub mod Tabled
pub mod Words
pub mod Printing
