pub mod Moving
pub mod Pushes
pub mod Reporting
pub mod Resets
pub mod Runs
pub mod Tracks
