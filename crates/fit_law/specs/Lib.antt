pub mod Fit
pub mod Conversed
pub mod Next
pub mod Same
pub mod Play
