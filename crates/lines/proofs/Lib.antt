pub mod Ends
pub mod Gathers
pub mod Hexes
pub mod Splitting
pub mod Spelling
pub mod Demands
