pub mod StaticStages
pub mod StaticLoops
pub mod StaticArguments
pub mod StaticBegins
pub mod StaticEntries
pub mod StaticSlots
pub mod StaticProcedures
