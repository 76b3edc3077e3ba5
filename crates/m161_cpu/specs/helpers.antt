-- Definitions that only contracts of private functions, or proofs, use.
pub mod Execute
pub mod Kept
pub mod Links
pub mod Translation
pub mod Uses
