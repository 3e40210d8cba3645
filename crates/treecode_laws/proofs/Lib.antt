mod Prelude
pub mod Externals
pub mod Slots
pub mod Homes
pub mod Labels
pub mod Publics
pub mod Contents
pub mod Lowered
pub mod Evaluating
pub mod Exchanging
pub mod QuietTrees
pub mod StoringNothing
pub mod KeptTraits
pub mod FreeNodes
pub mod Operands
