pub mod Cutting
pub mod Filling
pub mod Fillings
pub mod Placing
pub mod Spending
