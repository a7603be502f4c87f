pub mod Within
pub mod Matching
pub mod Demands
