pub mod Digits
pub mod Back
pub mod Samples
