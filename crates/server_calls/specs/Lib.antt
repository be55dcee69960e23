pub mod Callers
pub mod Requests
