pub mod Text
pub mod Shortest
pub mod Demands
