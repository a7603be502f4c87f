pub mod Says
pub mod Pieces
pub mod Printing
pub mod Demands
