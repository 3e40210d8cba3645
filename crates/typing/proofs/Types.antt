pub mod TypesKept
pub mod TypesOfReferences
pub mod TypesOfExpressions
pub mod FramesSummed
pub mod TypesWalked
pub mod TypesOfDeclarations
pub mod TypesOfStatements
pub mod TypedLaws
