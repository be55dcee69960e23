pub mod AmidListings
pub mod InALoop
pub mod InARow
pub mod Marks
pub mod Notified
pub mod OverFiles
pub mod WorkedRuns
