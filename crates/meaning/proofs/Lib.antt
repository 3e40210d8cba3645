mod Prelude
pub mod DroppedLists
pub mod Preserves
pub mod Kept
pub mod KeptParts
pub mod KeptStatements
pub mod KeptCalls
pub mod AgreementStatements
pub mod Added
pub mod Lasting
pub mod Runs
pub mod Flows
pub mod Staying
pub mod LabelPlaces
pub mod Powers
pub mod FunctionResults
