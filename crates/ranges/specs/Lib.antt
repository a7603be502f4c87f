pub mod Meaning
pub mod Grammar
pub mod Parts
pub mod Reading
pub mod helpers
