pub mod Reads
pub mod Words
