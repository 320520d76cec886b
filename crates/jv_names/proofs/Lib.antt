mod Rows
pub mod Tables
pub mod Lookups
mod Alike
mod Variables
mod Exits
mod Expressions
mod Statements
mod Calls
pub mod Main
mod Seen
pub mod Apart
pub mod Bodies
pub mod BodyIs
pub mod Clean
pub mod Completing
pub mod Decided
pub mod Declared
pub mod Enums
pub mod Fields
pub mod Fitting
pub mod Kept
pub mod Labels
pub mod Locals
pub mod Mentioned
pub mod MethodKinds
pub mod Moving
pub mod NamedApart
pub mod Naming
pub mod OneNumber
pub mod Operating
pub mod Owned
pub mod Params
pub mod Performing
pub mod Scopes
pub mod Slots
pub mod Stating
pub mod TypesMeet
pub mod Typing
mod Sound
