pub mod Same
pub mod Once
pub mod Laws
