mod Prelude
pub mod Values
pub mod Runs
pub mod Pieces
pub mod Places
pub mod Images
pub mod Highs
pub mod Loads
pub mod Tests
pub mod Placing
pub mod Loading
pub mod Refused
