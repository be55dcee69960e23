pub mod HeaderLemmas
pub mod UsedLemmas
pub mod StepByLemmas
pub mod PageLemmas
pub mod ApartLemmas
pub mod PlainPlaces
