pub mod ReadBack
pub mod LabelTable
pub mod LabelsRead
pub mod LabelsListed
mod Rows
pub mod Views
pub mod LabelsLoad
pub mod WrittenFaults
pub mod WrittenLaw
