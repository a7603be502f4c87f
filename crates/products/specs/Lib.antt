pub mod Counting
pub mod Grammar
pub mod Wording
pub mod helpers
