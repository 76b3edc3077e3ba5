-- Definitions that only contracts of private functions or proofs use.
pub mod Ends
pub mod Entering
pub mod Keys
pub mod Pieces
pub mod Trails
pub mod Visit
