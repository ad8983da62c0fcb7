pub mod Sheets
pub mod Told
pub mod Pages
