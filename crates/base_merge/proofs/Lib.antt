pub mod Next
pub mod Head
pub mod Walk
