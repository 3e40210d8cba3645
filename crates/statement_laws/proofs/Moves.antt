pub mod MovedBlocks
pub mod MoveCalls
pub mod Moves
