pub mod Ring
pub mod Shows
