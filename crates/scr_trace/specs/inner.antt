pub mod Joined
pub mod Laying
pub mod Entries
pub mod View
pub mod Search
pub mod Goes
pub mod Offering
