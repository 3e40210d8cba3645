mod Prelude
pub mod ParameterWords
pub mod Distances
pub mod Places
pub mod Entries
pub mod Parameters
pub mod FrameBytes
pub mod Frames
pub mod Homes
pub mod Short
pub mod Objects
