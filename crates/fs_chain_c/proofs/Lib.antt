pub mod CalledLemmas
pub mod CalledLogs
pub mod CalledMoves
mod BoxValues
mod ChainValues
mod IotlbValues
pub mod IotlbLemmas
pub mod HandleLemmas
pub mod LoggingLemmas
pub mod MemoryLemmas
pub mod MovingLemmas
pub mod NotifyLemmas
pub mod QueueLemmas
pub mod RangeLemmas
pub mod RecordLemmas
pub mod WindowLemmas
