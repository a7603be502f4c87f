pub mod Years
pub mod Grammar
pub mod Reading
pub mod Names
pub mod helpers
