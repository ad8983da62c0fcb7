pub mod Climb
pub mod Rows
