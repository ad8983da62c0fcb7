pub mod Opening
pub mod Fresh
