pub mod Doing
pub mod Alone
pub mod Steady
pub mod Needing
pub mod Main
pub mod inner
