pub mod Entries
pub mod Samples
