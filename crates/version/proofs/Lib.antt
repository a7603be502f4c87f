pub mod Scan
pub mod Back
pub mod Ordering
pub mod Demands
