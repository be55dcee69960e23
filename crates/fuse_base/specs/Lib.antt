pub mod Flags
pub mod Records
pub mod Stats
pub mod Options
