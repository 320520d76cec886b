pub mod Typestate
pub mod View
pub mod Proper
pub mod Calls
pub mod Reachable
pub mod inner
