pub mod Extras
pub mod Fronts
pub mod Labels
pub mod Reading
