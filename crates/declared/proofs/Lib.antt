mod Prelude
pub mod TableKinds
pub mod Meanings
pub mod Cuts
pub mod SlotSums
pub mod FrameBytes
pub mod MemberSums
