pub mod Below
pub mod Order
