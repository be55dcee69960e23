pub mod Number
pub mod Root
