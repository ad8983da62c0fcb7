pub mod Joint
pub mod Laid
