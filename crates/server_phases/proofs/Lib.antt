pub mod Fronts
pub mod Gathered
pub mod Suiting
pub mod Reporting
