pub use Rattle.m161_gdb.specs.Stops
pub mod Scenes
pub mod Course
pub mod Stopping
pub mod Moves
pub mod Threads
pub mod helpers
