mod Examples
mod CounterIsCore
pub mod Lists
pub mod Worlds
pub mod Operators
pub mod Sessions
pub mod Objects
pub mod Expressions
pub mod Completions
pub mod Executions
pub mod Sound
mod Budget
