-- For the contracts of helpers and for proofs. Nothing here has to be believed.
pub mod Scan
