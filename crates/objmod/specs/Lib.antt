pub use Rattle.object_modules.specs.Module
pub use Rattle.object_modules.specs.Spelling
pub use Rattle.object_modules.specs.Text
pub mod Numbers
pub mod Streams
pub mod internal
