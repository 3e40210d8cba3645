pub mod Ranges
pub mod RangesOfBytes
pub mod RangesOfTrees
pub mod Heads
pub mod RangesOfStatements
pub mod RangesOfCalls
pub mod NumbersOfTrees
