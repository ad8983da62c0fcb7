pub mod Format
pub mod Lines
