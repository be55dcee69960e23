pub mod Left
pub mod ListingLemmas
