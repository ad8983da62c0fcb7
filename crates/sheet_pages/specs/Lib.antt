pub mod Pages
pub mod Walk
pub mod Allowed
pub mod Due
pub mod Ring
pub mod Whole
