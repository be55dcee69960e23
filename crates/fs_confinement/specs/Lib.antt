pub mod ReadSet
pub mod ByLoads
pub mod Confinement
pub mod Examples
