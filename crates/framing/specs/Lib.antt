pub mod Grammar
pub mod Answer
pub mod Demand
pub mod Reading
pub mod helpers
