pub mod Bits
pub mod Choice
pub mod Table
pub mod Instr
pub mod Laws
pub mod Address
pub mod helpers
