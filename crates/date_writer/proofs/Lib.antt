pub mod Form
pub mod Demands
pub mod Writer
pub mod Back
