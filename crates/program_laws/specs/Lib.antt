pub mod Agreement
pub mod MemoryAtEnd
pub mod OneModule
pub mod internal
