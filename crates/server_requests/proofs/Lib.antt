pub mod ExtraLemmas
pub mod ForgetLemmas
pub mod LabelLemmas
pub mod NameLemmas
pub mod PlaceLemmas
pub mod RecordLemmas
pub mod Split
