pub mod Call
pub mod Laws
pub mod Grow
pub mod Bases
pub mod Lent
