pub mod Turns
pub mod Paged
pub mod Agreed
