pub mod Next
pub mod Rise
pub mod Merged
pub mod Shown
