pub mod FramesSteps
pub mod FramesPlanned
pub mod FramesSet
pub mod FramesNew
pub mod FramesLast
pub mod FramesBegin
