-- Definitions that only contracts of private functions, or proofs, use.
pub mod Counting
pub mod Watching
