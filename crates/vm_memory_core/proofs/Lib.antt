pub mod Stores
pub mod WindowLemmas
pub mod ValueLemmas
pub mod ReadingLemmas
