pub mod StreamLemmas
pub mod QueueLemmas
pub mod ReadingLemmas
