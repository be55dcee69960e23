pub mod Entries
pub mod PageSizes
pub mod WholeReplies
