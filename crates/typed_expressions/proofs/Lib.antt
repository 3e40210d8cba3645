mod Prelude
pub mod LeftScalars
pub mod Filled
pub mod Subscripts
pub mod GivenParts
pub mod ArgumentLoops
pub mod DestinationLoops
pub mod MemberPlaces
pub mod Operands
