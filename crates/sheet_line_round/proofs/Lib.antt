pub mod Round
pub mod Carried
