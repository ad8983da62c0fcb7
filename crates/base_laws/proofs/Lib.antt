pub mod Logic
pub mod Below
pub mod Order
pub mod Seq
pub mod Fill
