pub mod Tok
pub mod Written
pub mod Grammar
pub mod Answer
pub mod inner
