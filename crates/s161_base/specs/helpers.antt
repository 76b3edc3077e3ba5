-- Definitions that only contracts of private functions, or proofs, use.
pub mod FaultLines
pub mod Samples
pub mod Pieces
