pub mod Tabled
pub mod Knowing
pub mod Linking
pub mod Counting
