mod Prelude
pub mod NamesLemmas
pub mod NumbersLemmas
pub mod ItemsLemmas
pub mod ScannerLemmas
pub mod LawsReadings
pub mod LawsTables
