pub mod Effects
pub mod Loading
pub mod Made
pub mod Places
pub mod Seeing
