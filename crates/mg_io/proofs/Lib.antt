pub mod Answered
pub mod Files
pub mod Taken
pub mod Written
