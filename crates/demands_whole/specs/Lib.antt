pub mod Texts
pub mod Demand1
