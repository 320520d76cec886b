mod Joins
mod Passes
mod Feeding
mod Turns
mod Hears
mod Speeches
