pub mod Results
pub mod Serving
pub mod Steps
pub mod TinyRun
