-- Definitions that only contracts of private functions, or proofs, use.
pub mod Events
pub mod History
pub mod Pace
pub mod Stretch
pub mod State
pub mod Window
