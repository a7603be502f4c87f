pub mod Moving
pub mod helpers
