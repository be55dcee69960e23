pub mod Drops
pub mod Returns
pub mod Walks
pub mod Wishes
