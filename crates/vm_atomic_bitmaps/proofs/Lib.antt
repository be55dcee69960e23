pub mod PassTotals
pub mod AllowedSteps
pub mod PassParts
pub mod PassSeats
pub mod PageRuns
pub mod RangePages
