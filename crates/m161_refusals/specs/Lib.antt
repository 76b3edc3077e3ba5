pub use Rattle.m161_machine.specs.State
pub mod Refusals
pub mod helpers
