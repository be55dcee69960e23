pub mod Carrying
pub mod ReadApart
pub mod ServerHandles
