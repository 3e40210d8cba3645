mod Prelude
pub mod FilesRead
pub mod DevicesLemmas
