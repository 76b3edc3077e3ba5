-- Definitions that only contracts of private functions, or proofs, use.
pub mod Behind
pub mod Consoles
pub mod Events
pub mod Made
pub mod Shown
pub mod Threads
pub mod Unhandled
