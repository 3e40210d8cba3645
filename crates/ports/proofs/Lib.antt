pub mod Beginnings
pub mod ScriptLemmas
pub mod Sessions
