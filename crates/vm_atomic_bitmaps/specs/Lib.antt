pub mod Counts
pub mod Rule
pub mod Steps
pub mod Passes
