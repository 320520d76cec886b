pub mod Letters
pub mod Written
pub mod Signs
pub mod Comments
pub mod Pieces
pub mod Faults
pub mod Outcome
pub mod inner
