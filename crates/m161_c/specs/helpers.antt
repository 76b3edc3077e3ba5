-- Definitions that only contracts of private functions, or proofs, use.
pub mod Begun
pub mod Booting
pub mod Explored
pub mod Listing
pub mod Offers
pub mod Points
pub mod Seeking
pub mod Turns
