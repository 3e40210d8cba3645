mod Prelude
pub mod Reversed
pub mod Steps
pub mod Copies
pub mod Accesses
pub mod Moving
pub mod ModuleSlots
pub mod Entering
pub mod Leading
pub mod SlotLists
pub mod Starts
