pub mod Word
pub mod Results
pub mod Merge
