pub mod Givers
pub mod Takers
