pub mod Sets
pub mod Member
