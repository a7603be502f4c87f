pub mod Scan
pub mod Parts
pub mod Demands
