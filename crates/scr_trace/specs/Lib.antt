pub mod Positions
pub mod Onward
pub mod Graph
pub mod Walking
pub mod inner
