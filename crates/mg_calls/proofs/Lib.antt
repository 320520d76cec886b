pub mod Spans
pub mod LineLemmas
pub mod FileLemmas
pub mod Laws
