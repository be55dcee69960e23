pub mod EntryLemmas
pub mod PageLemmas
pub mod ReplyLemmas
