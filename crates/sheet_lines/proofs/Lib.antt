pub mod Entries
pub mod Judged
pub mod Layouts
pub mod Lengths
pub mod Passed
pub mod Starts
