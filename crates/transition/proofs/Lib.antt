pub mod Digits
pub mod Telling
