pub mod Bytes
pub mod Fronts
pub mod Owns
