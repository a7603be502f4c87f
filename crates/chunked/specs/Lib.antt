pub mod Verdict
pub mod helpers
