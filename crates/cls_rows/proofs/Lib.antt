pub mod Taking
pub mod Alike
pub mod Settled
pub mod Plainly
pub mod Others
pub mod Members
pub mod Coming
pub mod Belonging
mod Doing
mod Rowing
