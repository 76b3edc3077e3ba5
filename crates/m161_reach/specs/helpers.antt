-- Definitions that only contracts of private functions or proofs use.
pub mod Advance
pub mod Handling
pub mod MetFrom
pub mod Onward
pub mod Path
pub mod Restore
pub mod Telling
pub mod Walk
