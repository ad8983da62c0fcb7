pub mod Absent
