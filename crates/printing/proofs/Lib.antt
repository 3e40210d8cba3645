mod Prelude
pub mod ReportLemmas
pub mod RunLemmas
