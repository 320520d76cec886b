pub mod Queues
pub mod Outgoing
pub mod Descriptors
pub mod Spelled
pub mod KeptTypes
pub mod BuiltLaws
