-- Definitions that only contracts of private functions, or proofs, use.
pub mod Drive
pub mod Left
pub mod Places
