-- For the contracts of helpers and for proofs. Nothing here has to be believed.
pub mod Extensions
pub mod Machine
pub mod Names
pub mod Scan
pub mod Trailer
