mod Prelude
pub mod Kept
pub mod KeptStored
pub mod Opened
pub mod PublicNames
pub mod ReadParts
pub mod ContentsFit
pub mod ReadFiles
pub mod ReadStreams
pub mod Tables
pub mod ValidNames
