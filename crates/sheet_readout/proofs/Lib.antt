pub mod Jointly
pub mod Laid
pub mod Accepted
