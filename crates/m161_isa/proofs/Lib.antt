pub mod OneRow
pub mod InstrBy
pub mod Kept
pub mod RoundTrips
pub mod Words
