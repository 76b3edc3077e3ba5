mod Decoded
mod Linked
mod Located
mod KeptRows
pub mod Performed
mod Slots
pub mod Fetched
pub mod Laws
pub mod Awake
mod Used
mod Told
pub mod Apart
pub mod Units
