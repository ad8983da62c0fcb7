pub mod ByChecks
