pub mod Charset
pub mod Places
pub mod Reading
