-- Definitions that only contracts of private functions, or proofs, use.
pub mod Watches
pub mod Tried
pub mod Inputs
pub mod Never
pub mod Begun
pub mod Telling
pub mod Delayed
pub mod Offers
pub mod Points
pub mod Storing
pub mod Explored
