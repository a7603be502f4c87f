pub mod Counting
pub mod Dates
pub mod Signed
pub mod Instants
pub mod Demands
pub mod Back
