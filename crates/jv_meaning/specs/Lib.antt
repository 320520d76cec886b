pub mod Program
pub mod Names
pub mod Meaning
pub mod Calls
pub mod Budget
pub mod examples
pub mod Computed
