mod Prelude
pub mod Words
pub mod EncodingLemmas
pub mod DecodingLemmas
pub mod Endings
pub mod Rows
pub mod Growing
pub mod FlagBytes
