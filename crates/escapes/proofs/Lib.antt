pub mod Tables
pub mod Resolved
pub mod Escapes
pub mod Demands
pub mod Compared
