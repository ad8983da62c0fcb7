pub mod Puts
pub mod Wholes
pub mod Taken
