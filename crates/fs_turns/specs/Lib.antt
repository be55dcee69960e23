pub mod Lives
pub mod Next
pub mod Used
pub mod Worlds
