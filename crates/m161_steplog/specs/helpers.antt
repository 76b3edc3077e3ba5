-- Definitions that only contracts of private functions, or proofs, use.
pub mod Log
pub mod Machine
pub mod Schedule
pub mod Size
pub mod Text
pub mod Verdict
pub mod Written
