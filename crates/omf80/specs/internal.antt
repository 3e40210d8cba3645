-- Worked records.
pub mod Examples
pub mod Numbers
pub mod Views
