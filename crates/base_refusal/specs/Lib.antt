pub mod Number
pub mod Reply
