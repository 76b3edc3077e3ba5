pub mod Breakpoints
pub mod Conditions
pub mod Stops
pub mod Shows
pub mod Commands
pub mod Obeys
pub mod Jumps
pub mod helpers
