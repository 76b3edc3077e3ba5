-- Definitions that only contracts of private functions, or proofs, use.
pub mod Batch
pub mod Conditions
pub mod Marks
pub mod Reading
pub mod Repeat
