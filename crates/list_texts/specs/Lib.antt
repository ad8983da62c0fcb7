pub mod Executed
pub mod Steps
