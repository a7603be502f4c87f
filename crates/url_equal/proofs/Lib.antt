pub mod Meaning
pub mod Pages
pub mod Equality
pub mod Demands
pub mod Examples
