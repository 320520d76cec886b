pub mod Suiting
