pub mod Offsets
pub mod SegmentExamples
