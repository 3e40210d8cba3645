mod Prelude
pub mod Arguments
pub mod Listings
pub mod StatementLists
pub mod Places
pub mod Modules
pub mod Headings
pub mod Counters
pub mod Bodies
pub mod ItemLemmas
pub mod Declares
