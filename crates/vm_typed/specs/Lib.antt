pub mod Alone
pub mod Next
pub mod Running
pub mod Telling
