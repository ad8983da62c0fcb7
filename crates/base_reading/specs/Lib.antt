pub mod Digits
pub mod Reads
