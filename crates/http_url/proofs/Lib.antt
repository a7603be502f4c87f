pub mod Tables
pub mod Text
pub mod Stretches
pub mod Scan
pub mod Ports
pub mod Demands
pub mod Examples
