pub mod Registers
pub mod Control
pub mod Trap
pub mod Clock
pub mod Restore
pub use Rattle.m161_isa.specs.Table
