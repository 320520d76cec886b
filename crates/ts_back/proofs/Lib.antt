pub mod Told
pub mod Same
pub mod Named
pub mod Printed
pub mod Answered
