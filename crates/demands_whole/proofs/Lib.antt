pub mod Meant
pub mod Texts
pub mod Lines
pub mod Demand1
