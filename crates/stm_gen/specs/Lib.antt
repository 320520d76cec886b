pub mod Laid
pub mod Numbered
pub mod Agreement
pub mod inner
