pub mod Numbers
pub mod Named
pub mod Stacks
pub mod Laws
