pub mod Gregorian
pub mod Instants
