pub mod Bytes
pub mod Reading
pub mod Readings
pub mod Cutting
pub mod Rows
pub mod Receiving
pub mod Tabulating
