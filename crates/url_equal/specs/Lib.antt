pub mod Meaning
pub mod Equality
pub mod Places
