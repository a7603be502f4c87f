pub mod Tables
pub mod Places
pub mod Effect
pub mod Assuming
pub mod Demands
pub mod CharsetExamples
