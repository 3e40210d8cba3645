pub mod Short
pub mod Taken
pub mod LabelsFound
pub mod Deeper
pub mod LinesOfPlaces
pub mod LinesCounted
