pub mod Scan
pub mod Zeros
pub mod Demands
pub mod Examples
