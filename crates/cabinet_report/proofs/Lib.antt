pub mod Pushes
pub mod Told
