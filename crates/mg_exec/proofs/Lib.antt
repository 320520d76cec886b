pub mod Told
pub mod FilesRead
pub mod Shown
pub mod Apart
pub mod Alike
