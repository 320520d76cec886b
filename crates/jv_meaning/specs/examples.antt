pub mod Small
pub mod Programs
pub mod Roles
pub mod Followed
