-- Definitions that only contracts of private functions, or proofs, use.
pub mod Reach
pub mod Steps
pub mod Walk
