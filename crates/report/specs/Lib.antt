pub mod Saying
pub mod Calls
