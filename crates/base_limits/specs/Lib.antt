pub mod Constants
pub mod Document
pub mod Ring
