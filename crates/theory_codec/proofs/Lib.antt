pub mod Written
pub mod Passing
pub mod Valid
pub mod Reading
pub mod Retold
pub mod Document
pub mod Worked
