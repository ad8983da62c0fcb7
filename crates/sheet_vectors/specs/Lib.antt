pub mod Vectors
pub mod Heads
