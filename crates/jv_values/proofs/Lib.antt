pub mod Combine
pub mod Expressions
pub mod Further
pub mod FurtherSteps
pub mod Positions
