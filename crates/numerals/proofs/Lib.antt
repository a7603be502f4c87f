pub mod Digits
pub mod Made
pub mod Demands
pub mod Reading
