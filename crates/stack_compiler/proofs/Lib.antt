mod Prelude
pub mod Storages
pub mod Arguments
pub mod JumpsFilled
pub mod StatementLoops
pub mod Cases
pub mod ProcedureLoops
pub mod RowLoops
pub mod RowLaws
pub mod MainModules
pub mod Marked
pub mod Counted
