pub mod HostLemmas
pub mod OfferLemmas
pub mod StepLemmas
pub mod RunLemmas
pub mod ByLoadsLemmas
