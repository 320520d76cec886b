mod Worked
pub mod Listed
pub mod Reporting
