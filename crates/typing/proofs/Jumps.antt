pub mod KnownLabels
pub mod LabelPlaces
pub mod JumpsLaw
pub mod JumpExamples
