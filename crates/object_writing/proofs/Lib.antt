mod Prelude
pub mod Sequences
pub mod Bodies
pub mod Grouping
pub mod EntriesOfItems
pub mod Entries
pub mod FixTexts
pub mod Fixes
pub mod Cutting
pub mod Texts
pub mod RunsLeft
