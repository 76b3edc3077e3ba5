pub mod Places
pub mod Laws
pub mod Going
pub mod helpers
