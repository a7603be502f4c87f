pub mod Resolved
pub mod Symbols
pub mod helpers
