-- For the contracts and for proofs. Nothing here has to be believed.
pub mod Lines
pub mod Words
