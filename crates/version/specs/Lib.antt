pub mod Grammar
pub mod Reading
pub mod Writing
pub mod helpers
