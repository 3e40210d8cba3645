pub use Rattle.symbols.specs.contracts.name.NamePartialEq as NameEquality
pub mod Trees
pub mod Functions
pub mod internal
