pub mod Endings
pub mod OneKind
pub mod ReaderLemmas
pub mod PartLemmas
pub mod RoleLemmas
pub mod Together
pub mod Programs
pub mod Alike
