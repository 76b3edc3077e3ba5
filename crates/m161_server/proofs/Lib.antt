pub mod Loops
pub mod Pieces
pub mod Dealing
pub mod Passing
pub mod One
pub mod Existing
