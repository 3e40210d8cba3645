mod Prelude
pub mod Codes
pub mod Stepping
pub mod SourceLines
pub mod Shown
pub mod Adding
pub mod LinesWritten
pub mod NamesAdded
pub mod ViewsMade
pub mod MarksMade
pub mod LineOrigins
pub mod ProcedureCodes
pub mod ModuleLists
pub mod ProgramLists
pub mod SymbolTexts
