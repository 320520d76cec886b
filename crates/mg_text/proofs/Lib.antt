pub mod Among
pub mod Letters
pub mod Numbered
