pub mod Shape
pub mod Answers
pub mod Applied
