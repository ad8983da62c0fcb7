pub mod View
pub mod Apply
pub mod Fresh
pub mod Fixing
pub mod Writing
pub mod Lent
