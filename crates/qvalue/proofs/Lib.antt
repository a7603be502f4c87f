pub mod Scan
pub mod Values
pub mod Demands
