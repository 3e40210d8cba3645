mod Prelude
pub mod Headline
pub mod LinkedLemmas
pub mod ExecutionLemmas
pub mod CompiledLemmas
pub mod SourcesLemmas
pub mod Lined
