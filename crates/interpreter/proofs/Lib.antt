mod Prelude
pub mod MainModules
pub mod Budgets
pub mod Runs
pub mod WrittenContents
pub mod Loops
pub mod Pairs
pub mod ModuleLoops
