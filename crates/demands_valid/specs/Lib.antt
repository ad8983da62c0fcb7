pub mod Room
pub mod Back
pub mod Restart
