pub mod Computed
pub mod Demands
