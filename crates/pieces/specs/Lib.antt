pub mod Grammar
pub mod Reading
pub mod Calls
pub mod helpers
