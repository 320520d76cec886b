mod Fits
mod Told
mod Tellings
mod Responses
mod Displays
