pub mod Law
pub mod Names
pub mod Table
pub mod helpers
pub use Rattle.m161_elf.specs.Symbols
