pub mod Taken
pub mod Share
