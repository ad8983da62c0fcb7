pub mod Change
pub mod Report
pub mod Vector
pub mod Line
pub mod Samples
