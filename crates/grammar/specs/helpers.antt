-- For the contracts of helpers and for proofs. Nothing here has to be believed.
pub mod Bounds
pub mod Derivative
pub mod Judge
pub mod Checks
pub mod Scans
pub mod Words
pub mod Slices
