pub use Rattle.m161_machine.specs.State
pub mod Traps
pub mod Unhandled
pub mod Trapping
pub mod Shown
pub mod Watching
pub mod helpers
