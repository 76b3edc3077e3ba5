-- Definitions that only contracts of private functions, or proofs, use.
pub mod Copied
pub mod Cover
pub mod Sound
pub mod Header
pub mod Span
pub mod Symbols
