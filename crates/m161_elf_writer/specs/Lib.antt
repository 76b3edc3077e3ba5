pub mod Labels
pub mod LabelsLaw
pub mod Written
pub mod WrittenLaw
