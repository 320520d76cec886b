pub mod Grow
pub mod Base
pub mod Exprs
pub mod Stmts
pub mod Files
