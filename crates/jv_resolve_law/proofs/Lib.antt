pub mod Steps
mod Tabled
mod Given
mod Calls
mod Expressions
mod Counting
mod Leads
mod Statements
mod Classes
mod Methods
mod Numbering
mod Whole
mod Total
mod TotalExpressions
mod TotalStatements
mod TotalMembers
mod TotalWhole
mod Shaped
