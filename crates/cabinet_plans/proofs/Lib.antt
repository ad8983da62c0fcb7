pub mod Known
pub mod Call
