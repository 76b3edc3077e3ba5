pub mod Reading
pub mod Parts
pub mod Decimal
pub mod Hex
pub mod Feeds
