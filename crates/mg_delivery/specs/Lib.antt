pub mod Numbers
pub mod Lines
pub mod Files
pub mod Outside
pub mod Contents
pub mod Delivery
