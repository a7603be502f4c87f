pub mod Writer
pub mod Demands
pub mod Examples
