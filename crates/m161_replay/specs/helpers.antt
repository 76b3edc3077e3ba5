-- Definitions that only contracts of private functions, or proofs, use.
pub mod Loads
pub mod Over
pub mod Standing
