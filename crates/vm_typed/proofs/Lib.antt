pub mod Tops
pub mod Next
pub mod Taken
pub mod Objects
pub mod Called
pub mod Flatly
pub mod Told
