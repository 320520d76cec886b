pub mod Loading
pub mod Going
pub mod Sent
