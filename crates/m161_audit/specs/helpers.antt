-- Definitions that only contracts of private functions, or proofs, use.
pub mod Progress
pub mod Run
pub mod WatchText
