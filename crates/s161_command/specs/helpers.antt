-- Definitions that only contracts of private functions, or proofs, use.
pub mod Commands
pub mod Delays
pub mod Entries
pub mod Lines
pub mod Settings
