mod Aiming
mod Drafts
mod Framing
mod Loops
mod Stating
mod Whole
