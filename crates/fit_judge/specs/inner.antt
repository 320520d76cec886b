pub mod Absent
pub mod Projections
pub mod Making
pub mod Used
