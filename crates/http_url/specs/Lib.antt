pub mod Bytes
pub mod Grammar
pub mod Places
pub mod helpers
