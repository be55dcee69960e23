pub mod Numbers
pub mod Streams
pub mod Fields
pub mod Record
pub mod Restoring
pub mod Laws
pub mod Examples
