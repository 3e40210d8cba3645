mod Prelude
pub mod Digits
pub mod LineLaws
pub mod Judged
pub mod TextsAgain
pub mod Counting
pub mod Rows
pub mod TextLines
pub mod TextsOfPieces
pub mod Ordered
pub mod SumLemmas
pub mod ReadLemmas
pub mod Writable
pub mod TableLemmas
pub mod WriteLemmas
