-- Definitions that only contracts of private functions, or proofs, use.
pub mod FirstPass
pub mod Ground
pub mod Lawful
pub mod Passes
pub mod SecondPass
pub mod Segments
pub mod Readers
pub mod Seen
pub mod Values
