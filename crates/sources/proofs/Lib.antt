mod Prelude
pub mod ReadLemmas
pub mod OneSource
pub mod LinesCounted
pub mod Programs
pub mod SoundSources
