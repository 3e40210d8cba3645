mod Prelude
pub mod Conditions
pub mod RecordLaws
pub mod RecordsAgain
pub mod Reading
pub mod Writing
