-- Definitions that only contracts of private functions, of the trait's methods, or proofs use.
pub mod Last
pub mod Slicing
pub mod Walking
