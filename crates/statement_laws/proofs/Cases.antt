pub mod CaseTables
pub mod CaseChoices
pub mod Cases
pub mod CaseForms
pub mod CasesDo
