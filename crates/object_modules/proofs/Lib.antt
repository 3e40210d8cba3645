mod Prelude
pub mod Pushed
pub mod FixesOfRuns
pub mod Options
pub mod MovedBytes
pub mod Fronts
pub mod ReadBack
pub mod StoredRuns
pub mod PushedRuns
pub mod ObjectLaws
pub mod Allowed
