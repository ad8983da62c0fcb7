pub mod Single
