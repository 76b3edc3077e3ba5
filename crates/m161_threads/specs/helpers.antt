-- Definitions that only contracts of private functions, or proofs, use.
pub mod Runs
pub mod Shares
pub mod Work
