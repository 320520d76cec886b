mod Words
mod Exprs
mod Stmts
mod Members
mod Programs
