-- Definitions that only contracts of private functions, or proofs, use.
pub mod Blanks
pub mod Lines
pub mod Sessions
