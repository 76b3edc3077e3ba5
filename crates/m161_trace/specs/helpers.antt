-- Definitions that only contracts of private functions, or proofs, use.
pub mod Adds
pub mod Far
pub mod Near
pub mod Loads
