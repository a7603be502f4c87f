pub mod Parts
pub mod Limits
pub mod Scan
pub mod Filled
pub mod Tables
pub mod Demands
pub mod Examples
