pub mod Grammar
pub mod helpers
