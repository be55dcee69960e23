pub mod Pages
pub mod Words
pub mod Summary
pub mod Keeps
pub mod OffsetBitmap
