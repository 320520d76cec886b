pub mod Grammar
pub mod Answer
pub mod inner
