pub mod Grammar
pub mod Parts
pub mod Places
pub mod Reading
pub mod helpers
