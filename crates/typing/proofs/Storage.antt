pub mod Storable
pub mod StorableExpressions
pub mod StorableObjects
pub mod StorableStatements
pub mod StorableExamples
