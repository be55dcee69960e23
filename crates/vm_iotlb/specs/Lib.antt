pub mod Table
pub mod Ranges
pub mod AddressRuns
pub mod Pieces
pub mod Changes
pub mod Numbers
pub mod Examples
pub mod Keys
