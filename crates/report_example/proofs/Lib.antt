pub mod Example
pub mod Demands
