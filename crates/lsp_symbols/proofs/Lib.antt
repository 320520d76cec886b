pub mod Scans
pub mod Walking
pub mod Pairing
pub mod Showing
