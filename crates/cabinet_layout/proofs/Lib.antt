pub mod Limits
pub mod Checks
pub mod Held
pub mod Made
pub mod Cards
pub mod Chains
