-- Definitions that only contracts of private functions, or proofs, use.
pub mod Steps
pub mod Lists
pub mod Rows
