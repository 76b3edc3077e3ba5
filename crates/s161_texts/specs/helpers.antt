-- Definitions that only contracts of private functions, or proofs, use.
pub mod Booted
pub mod Driven
pub mod Listings
pub mod Marks
pub mod Printing
pub mod Scheduled
