mod Calm
mod Sourced
mod Playing
mod Parts
mod Fitting
