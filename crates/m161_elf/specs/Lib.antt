pub mod Header
pub mod Image
pub mod LoadError
pub mod Outside
pub mod Span
pub mod Symbols
pub mod helpers
