pub mod Writing
pub mod helpers
