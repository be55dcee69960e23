pub mod Errors
pub mod SegmentPlaces
pub mod Segments
pub mod ReaderAndWriterView
