pub mod Meaning
pub mod Places
pub mod Reading
pub mod helpers
