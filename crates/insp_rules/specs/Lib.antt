pub mod Program
pub mod Skeleton
pub mod Frames
pub mod Reached
pub mod Numbers
