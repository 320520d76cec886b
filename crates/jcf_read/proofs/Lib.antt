mod Folds
mod Lists
mod Loops
