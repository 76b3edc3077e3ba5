-- Definitions that only contracts of private functions, or proofs, use.
pub mod Ranges
pub mod Tries
