pub mod Records
pub mod Shapes
