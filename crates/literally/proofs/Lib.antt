mod Prelude
pub mod Failures
pub mod DefinitionsNoStrings
pub mod DefinitionsInForce
pub mod DefinitionsHeld
pub mod ExpansionTexts
pub mod ExpansionWords
pub mod LawsOneExpansion
pub mod LawsTotality
